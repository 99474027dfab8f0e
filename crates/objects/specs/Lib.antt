pub mod Objects
pub mod RoundTrip
pub mod Tables
