-- The definitions that callers of both ends, of links and of worlds read.
pub mod Hearing
pub mod Requests
pub mod Stops
pub mod Asking
pub mod Asks
pub mod Serving
pub mod Visits
pub mod HubSessions
pub mod Links
pub mod TcpLinks
pub mod Carrying
pub mod Worlds
pub mod Ends
pub mod Happening
pub mod WorldOrders
pub mod DatabasesClients
