pub mod Views
pub mod Codes
pub mod Steps
pub mod Allowed
pub mod Offers
pub mod Seated
pub mod Surveys
