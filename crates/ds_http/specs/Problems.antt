-- The answer to a request that is refused before the sheet is asked.
use Rattle.std.specs.Prelude.{ℕ, List, codes}
use Rattle.ds_http.specs.declared.problem.Problem.{Problem}
use Rattle.ds_http.specs.declared.problem.Problem.TheVariants as problems

-- its status (RFC 9110, section 15)
abbrev pub problem_status : Problem → ℕ
problem_status problems.ForeignOrigin = 403
problem_status problems.Denied = 401
problem_status problems.NotFound = 404
problem_status problems.MethodNotAllowed = 405
problem_status problems.UpgradeRequired = 426
problem_status problems.BadKey = 400

-- its body: a code and a name
abbrev pub problem_text : Problem → List ℕ
problem_text problems.ForeignOrigin = codes "{\"code\":30,\"error\":\"foreign-origin\"}\n"
problem_text problems.Denied = codes "{\"code\":20,\"error\":\"denied\"}\n"
problem_text problems.NotFound = codes "{\"code\":31,\"error\":\"not-found\"}\n"
problem_text problems.MethodNotAllowed = codes "{\"code\":32,\"error\":\"method-not-allowed\"}\n"
problem_text problems.UpgradeRequired = codes "{\"code\":33,\"error\":\"upgrade-required\"}\n"
problem_text problems.BadKey = codes "{\"code\":34,\"error\":\"bad-key\"}\n"
