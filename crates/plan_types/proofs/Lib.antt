pub mod Lists
mod Once
