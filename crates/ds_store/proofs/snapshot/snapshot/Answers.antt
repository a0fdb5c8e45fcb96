use Rattle.ds_store.proofs.snapshot.snapshot.Goals as goal

pub returns-in-Ok : goal.returns-in-Ok
returns-in-Ok c clean =
    (record { log = c.in_ok-log.log; db = c.in_ok-db.db }, c.in_ok-db.ensures.bytes, c.in_ok-log.ensures.bytes, c.in-Ok.ensures.found clean)
