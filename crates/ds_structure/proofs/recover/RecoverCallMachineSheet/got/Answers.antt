use Rattle.ds_structure.proofs.Recoveries.{fewer_left, fits_still}
use Rattle.ds_structure.proofs.recover.RecoverCallMachineSheet.got.Goals as goal

pub returns-clause-fits : goal.returns-clause-fits
returns-clause-fits c = fits_still c.args.key.now.layout c.args.self.now c.got.new.call c.args.word c.got.ensures c.is_recovery.ensures c.requires.fits

pub returns-clause-fewer : goal.returns-clause-fewer
returns-clause-fewer c = fewer_left c.args.self.now c.got.new.call c.args.word c.got.ensures c.requires.fits.is c.requires.goes
