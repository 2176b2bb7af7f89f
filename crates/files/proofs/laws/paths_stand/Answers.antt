use Rattle.files.proofs.Paths.{path_read, path_rises}
use Rattle.files.proofs.laws.paths_stand.Goals as goal

pub returns : goal.returns
returns c = record { order = path_read; rise = path_rises }
