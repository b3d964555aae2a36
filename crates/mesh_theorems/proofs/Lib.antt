-- The clause and the reader ask the same of a corner.
pub mod CornerInfo
-- Every number handed out is within the mesh.
pub mod Below
-- No answer of the coder is 9 or 18 here.
pub mod SmallCounts
pub mod Sound
-- What a file states is read back.
pub mod Seams
pub mod FieldsBack
pub mod ShadingsBack
pub mod DeclarationBack
pub mod BaseBack
pub mod FacesTaken
pub mod FacesBack
pub mod ReadBack
pub mod Written
pub mod ExampleMesh
pub mod Housed
