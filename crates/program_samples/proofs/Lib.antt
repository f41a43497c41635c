mod Agreed
mod Formed
mod Methods
mod Trees
mod Typed
