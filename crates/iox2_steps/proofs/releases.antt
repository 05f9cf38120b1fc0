-- A borrowed message is given back.
pub mod Pruning
pub mod Forgotten
pub mod ForgottenEnds
pub mod Departed
pub mod Forgets
pub mod Released
pub mod LetGo
pub mod HandedBack
pub mod Drops
pub mod Left
pub mod Idle
pub mod Leaving
pub mod SettledChannels
pub mod GivenBack
pub mod BookFreed
pub mod ReturnedHere
