pub mod Casting
mod NullableBoxSteps
pub mod Lending
