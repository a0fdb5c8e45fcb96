use Rattle.ds_c.proofs.laws.made_worlds_have_the_headline.Goals as goal

pub returns : goal.returns
returns c = λ columns rows processes edition old events replies new made run. c.runs_have_the_headline.ensures old events replies new made.new made.good run
