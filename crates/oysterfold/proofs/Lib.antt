-- Laws that belong to no one function.
pub mod Words
pub mod Lengths
pub mod Results
pub mod Answers
pub mod Stepping
pub mod WalkAnswers
pub mod Whole
pub mod Declared
pub mod WriteAnswers
pub mod ReadAnswers
pub mod Widths
pub mod Contexts
