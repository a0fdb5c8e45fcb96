use Rattle.std.proofs.Common.{◌≡◌, ◌∙◌, ap, map, sym, true, [], Some, List, subst}
use Rattle.std.proofs.lemmas.Result.{IfOk-weaker, IfErr-weaker}
use Rattle.std.specs.String.{string_bytes}
use Rattle.clap.specs.Simple.{is_simple, subcommand_of, subcommand_rows_of}
use Rattle.clap.specs.Words.{HasKind, Text, app_of, fault_of, found_of, is_simple_and_free, rows_of}
use Rattle.clap.specs.declared.parser.matches.ArgMatches.TheViews.{out-ArgMatches}
use Rattle.ds_cli.specs.CommandLines.{dsheet}
use Rattle.ds_cli.proofs.Matched.{entered_is}
use Rattle.ds_cli.proofs.Refused.{refused_for, told_as}
use Rattle.ds_cli.proofs.command_line.options.Goals as goal

pub returns-in-Some : goal.returns-in-Some
returns-in-Some c =
    let m = c.in_ok-matches.matches in
    let program_is : app_of c.in_ok-program.field-0 ≡ dsheet = c.in_ok-program.ensures.is in
    let words : List Text = map string_bytes c.args.words.now in
    let simple : is_simple (app_of c.in_ok-program.field-0) ≡ true = ap is_simple program_is in
    let free : is_simple_and_free (app_of c.in_ok-program.field-0) ≡ true = ap is_simple_and_free program_is in
    let entered : subcommand_rows_of m ≡ subcommand_of (app_of c.in_ok-program.field-0) words = (c.in_ok-matches.ensures.matches simple).1 in
    let named = entered_is (out-ArgMatches m).subcommand c.in-Some.name.now (rows_of (found_of c.in-Some.found.now)) c.in-Some.ensures.name c.in-Some.ensures.rows in
    let asked : subcommand_of dsheet words ≡ Some (c.in-Some.name.now, rows_of (found_of c.in-Some.found.now)) =
    sym (ap (λ a. subcommand_of a words) program_is) ∙ sym entered ∙ named in
    let none : fault_of dsheet words ≡ [] = sym (ap (λ a. fault_of a words) program_is) ∙ c.in_ok-matches.ensures.kinds free in
    record {
      action = IfOk-weaker c.asked.result _ _ (λ action h. (c.in-Some.name.now, rows_of (found_of c.in-Some.found.now), asked, h)) c.asked.ensures.action;
      accepted = IfOk-weaker c.asked.result _ _ (λ action h. none) c.asked.ensures.action;
      fault = IfErr-weaker c.asked.result _ _ (λ fault h. refused_for words c.in-Some.name.now (rows_of (found_of c.in-Some.found.now)) fault none asked h) c.asked.ensures.fault;
    }

pub returns-in_err-matches-clause-fault : goal.returns-in_err-matches-clause-fault
returns-in_err-matches-clause-fault c =
    let program_is : app_of c.in_ok-program.field-0 ≡ dsheet = c.in_ok-program.ensures.is in
    let words : List Text = map string_bytes c.args.words.now in
    let free : is_simple_and_free (app_of c.in_ok-program.field-0) ≡ true = ap is_simple_and_free program_is in
    let kinds : HasKind (fault_of (app_of c.in_ok-program.field-0) words) c.in_err-matches.field-0.0 = c.in_err-matches.ensures.kinds free in
    let has : HasKind (fault_of dsheet words) c.in_err-matches.field-0.0 = subst (λ a. HasKind (fault_of a words) c.in_err-matches.field-0.0) program_is kinds in
    told_as words c.from_residual-in_err-matches.result c.in_err-matches.field-0.0 c.from_residual-in_err-matches.ensures.1 has
