mod HeldCrossing
mod HeldSteps
