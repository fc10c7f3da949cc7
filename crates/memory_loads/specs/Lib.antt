pub mod LoadAnswer
