-- A file is accepted exactly if it is the file of a job within the limits; then it says that job.
use mathlib.Core.Path.{◌≡◌, subst⁻¹}
use mathlib.Core.List.{List}
use mathlib.Core.Logic.{◌↔◌}
use Prim.Native.Nat.{ℕ}
use Rattle.matrix_form.specs.Outcomes.{value}
use Rattle.file_form.specs.Job.{Job, JobFormed, JobWithinLimits, file_of}
use Rattle.file_form.specs.Reading.{read_answer}
use Rattle.file_form.proofs.File.FileLength.{formed_within}
use Rattle.file_form.proofs.File.ReadOfFile.{read_of_file}
use Rattle.file_form.proofs.File.FileOfRead.{file_of_read}

-- a file is accepted with a job exactly if the job is within the limits and the file is the job's file
pub accepted_exactly : (file : List ℕ) (job : Job) → (read_answer file ≡ value job) ↔ (JobWithinLimits job × (file ≡ file_of job))
accepted_exactly file job = (
  file_of_read file job,
  λ said. subst⁻¹ (λ text. read_answer text ≡ value job) said.1 (read_of_file job said.0),
)

-- so a file is accepted with a job exactly if the job is formed and the file is the job's file: that file is never too long
pub formed_accepted : (file : List ℕ) (job : Job) → (read_answer file ≡ value job) ↔ (JobFormed job × (file ≡ file_of job))
formed_accepted file job = (
  λ read. let said = (accepted_exactly file job).0 read in (said.0.formed, said.1),
  λ said. (accepted_exactly file job).1 (formed_within job said.0, said.1),
)
