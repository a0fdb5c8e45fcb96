-- The answer to a question about a script, which is the body of the request.
use Rattle.std.specs.Prelude.{Bool, true, false}
use Rattle.http_server.specs.declared.response.Response.{Response}
use Rattle.ds_analyst.specs.declared.question.Question.{Question}
use Rattle.ds_analyst.specs.declared.question.Question.TheVariants as questions
use Rattle.ds_analyst.specs.declared.question.Analysis.{Analysis}
use Rattle.ds_analyst.specs.declared.question.Analysis.TheVariants as analyses
use Rattle.ds_http.specs.declared.problem.Problem.TheVariants as problems
use Rattle.ds_http.specs.declared.reply.Kind.{Kind}
use Rattle.ds_http.specs.declared.reply.Kind.TheVariants as kinds
use Rattle.ds_http.specs.Bodies.{fields_for, denied_fields, Says, Refuses}

-- what a body is that answers the question
abbrev pub kind_of : Question → Kind
kind_of questions.Orders = kinds.Lines
kind_of questions.Run = kinds.Picture

-- the response says what was found; or, as 422, why nothing can be (RFC 9110, section 15.5.21)
abbrev pub SaysAnalysis : Question → Analysis → Response → Type 0
SaysAnalysis question (analyses.Found text) r = Says 200 (fields_for (kind_of question)) text.items r
SaysAnalysis question (analyses.Unfit why) r = Says 422 (fields_for kinds.Text) why.items r

-- the answer to the question, of an analyst that may find this
pub record AnswersQuestion (Finds : Analysis → Type 0) (question : Question) (r : Response) : Type 0 where
  pub analysis : Analysis
  pub found : Finds analysis
  pub says : SaysAnalysis question analysis r

-- the same, and whether the request has the token
abbrev pub AnswersQuestionIf : (Analysis → Type 0) → Bool → Question → Response → Type 0
AnswersQuestionIf Finds true question r = AnswersQuestion Finds question r
AnswersQuestionIf Finds false question r = Refuses denied_fields problems.Denied r
