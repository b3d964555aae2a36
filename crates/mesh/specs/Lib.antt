pub mod Run
pub mod Shading
pub mod Declaration
pub mod Corners
pub mod Faces
pub mod Base
pub mod Inside
