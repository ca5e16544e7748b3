mod Lists
mod Over
