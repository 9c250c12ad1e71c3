-- What is proved of the definitions: laws, round trips, the numbers worked by hand, and the theorems
pub mod Puts
pub mod PlaneLaws
pub mod Calls
pub mod RoundTrip
pub mod Theorems
pub mod Worked
pub mod Told
