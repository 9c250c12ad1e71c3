-- What the entries add to a prediction.
pub mod Lists
