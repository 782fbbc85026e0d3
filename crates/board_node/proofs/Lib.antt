mod Lists
mod Finding
mod Logs
mod Reading
mod Fitting
mod Rings
