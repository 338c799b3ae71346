use Rattle.std.proofs.Common.{refl}
use Rattle.terms.specs.Sets.{empty, singleton, symmetric_difference}
use Rattle.samples.proofs.Sessions.{samples_replay}
use Rattle.samples.proofs.table.table_of_samples.Goals as goal

pub returns : goal.returns
unfolding empty singleton symmetric_difference
returns c = record { forms = (refl, (refl, tt)); sessions = samples_replay }
