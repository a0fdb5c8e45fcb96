mod CallRuns
mod HeldCrossing
mod HeldSteps
