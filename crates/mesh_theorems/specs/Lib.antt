pub mod Refusals
pub mod CornerInfo
pub mod Below
pub mod FaceNumbers
pub mod Encoding
