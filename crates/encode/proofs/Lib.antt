pub mod Chain
pub mod Drained
pub mod Passes
pub mod RoundTrip
pub mod RoundTripTables
