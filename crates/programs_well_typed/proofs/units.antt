mod Each
mod Plain
mod Dynamic
mod Objects
mod Firsts
mod Reading
mod Units
mod Programs
