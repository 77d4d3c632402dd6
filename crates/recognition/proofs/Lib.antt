pub mod Recognising
pub mod Recognised
