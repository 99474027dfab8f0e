pub mod Walk
pub mod Fill
pub mod Most
pub mod Pad
pub mod Every
pub mod First
