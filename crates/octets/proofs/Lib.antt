pub mod Tests
pub mod Laws
pub mod BitLaws
pub mod Cells
pub mod All
