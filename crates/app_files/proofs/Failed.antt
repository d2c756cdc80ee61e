-- The file that failed.
use Rattle.std.proofs.Common.{◌≡◌, ℕ, zero, suc, ◌<◌, List, [], ◌∷◌, length, slice_index, inl, inr, refl, ◌∙◌, arith}
use Rattle.bridge_limits.specs.Members.{IsMember}
use Rattle.app_files.specs.declared.failed_file.Access.{Access}
use Rattle.app_files.specs.declared.failed_file.FileFault.{FileFault}
use Rattle.app_files.specs.declared.failed_file.FileFault.TheVariants as fault
use Rattle.app_files.specs.FailedFiles.{IsCaptureFault, IsOfPath}
use Rattle.app_files.specs.Paths.{capture_path}

-- A fault of a capture's path is a fault of this capture.
pub is_capture : (access : Access) (folder ports path : List ℕ) (port : ℕ) (f : FileFault) → IsMember port ports → path ≡ capture_path folder port → IsOfPath access path f → IsCaptureFault access folder ports f
is_capture access folder ports path port (fault.File e) here is h = (h.0, (port, here, h.1 ∙ is))
is_capture access folder ports path port fault.NoMemory here is h = tt

-- A list contains its item at an index.
pub index_in : (xs : List ℕ) (i : ℕ) → i < length xs → IsMember (slice_index xs i) xs
index_in [] i l = absurd (omega (arith, l))
index_in (x ∷ xs) zero l = inl refl
index_in (x ∷ xs) (suc i) l = inr (index_in xs i (omega (arith, l)))
