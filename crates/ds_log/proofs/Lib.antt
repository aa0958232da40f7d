mod Numbers
mod Roots
mod RoutingSteps
