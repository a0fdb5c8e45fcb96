use Rattle.ds_core.specs.declared.event.Event.TheVariants.{BeginMigrate}
use Rattle.ds_calls.proofs.Begins.{whole_migration_of}
use Rattle.ds_calls.proofs.call.whole_migration.Goals as goal

pub returns : goal.returns
returns c =
    whole_migration_of c.args.process (BeginMigrate c.args.process) c.args.world.now c.begin_migration-reply.new.world c.driven.new.world c.begin_migration-reply.result c.driven.result
    c.begin_migration-reply.ensures.fits c.begin_migration-reply.ensures.begins c.driven.ensures
