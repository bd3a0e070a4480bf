-- Events of trees and of fronts.
pub mod EventsAround
pub mod EventPlaces
pub mod EventsDue
