pub mod Ahead
pub mod Behind
pub mod FileDisk
pub mod Silent
pub mod TcpDoor
pub mod TcpLink
pub mod TcpLobby
