pub mod Cases
pub mod Back
pub mod Refuses
pub mod Laid
