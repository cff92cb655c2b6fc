pub mod Looking
pub mod Growing
pub mod Taking
