use Rattle.ds_state.specs.declared.answer.Answer.TheVariants.{Edit, Work, Show, Recovery}
use Rattle.ds_c.proofs.CallRuns.{replies_lead, offers_lead, evicts_lead, crashes_lead, ended_lead, migrates_lead, settles_lead, recalculates_lead}
use Rattle.ds_c.proofs.laws.calls_are_runs.Goals as goal

pub returns-clause-events : goal.returns-clause-events
returns-clause-events c = replies_lead

pub returns-clause-offers : goal.returns-clause-offers
returns-clause-offers c = offers_lead

pub returns-clause-evictions : goal.returns-clause-evictions
returns-clause-evictions c = evicts_lead

pub returns-clause-crashes : goal.returns-clause-crashes
returns-clause-crashes c = crashes_lead

pub returns-clause-edits : goal.returns-clause-edits
returns-clause-edits c = ended_lead Edit

pub returns-clause-works : goal.returns-clause-works
returns-clause-works c = ended_lead Work

pub returns-clause-reports : goal.returns-clause-reports
returns-clause-reports c = ended_lead Show

pub returns-clause-recoveries : goal.returns-clause-recoveries
returns-clause-recoveries c = ended_lead Recovery

pub returns-clause-migrations : goal.returns-clause-migrations
returns-clause-migrations c = migrates_lead

pub returns-clause-settles : goal.returns-clause-settles
returns-clause-settles c = settles_lead

pub returns-clause-recalculations : goal.returns-clause-recalculations
returns-clause-recalculations c = recalculates_lead
