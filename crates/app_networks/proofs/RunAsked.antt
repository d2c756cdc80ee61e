-- The requested run, by the fields of its command.
use Rattle.std.proofs.Common.{◌≡◌, ℕ, List, Option, String, Global, string_bytes, subst}
use Rattle.std.specs.Prelude.{option_map}
use Rattle.app_cli.specs.declared.picture_request.PictureRequest.{PictureRequest}
use Rattle.app_cli.specs.declared.table_request.TableRequest.{TableRequest}
use Rattle.app_failure.specs.declared.fault.Failure.{Failure}
use Rattle.app_commands.specs.CommandOutputs.{IsRunOutput}
use Rattle.app_commands.specs.ShownFiles.{EndsTold}
use Rattle.app_commands.specs.declared.output.Output.{Output}

pub run_fails : (plan plan' input input' output output' : List ℕ) (commands commands' : Option (String Global)) (tables tables' : TableRequest) (picture picture' : Option PictureRequest) (f : Failure)
    → plan ≡ plan' → input ≡ input' → output ≡ output' → commands ≡ commands' → tables ≡ tables' → picture ≡ picture'
    → EndsTold Global plan (option_map string_bytes commands) input output (option_map string_bytes tables.delays) (option_map string_bytes tables.frames) (option_map (λ p. string_bytes p.file) picture) f
    → EndsTold Global plan' (option_map string_bytes commands') input' output' (option_map string_bytes tables'.delays) (option_map string_bytes tables'.frames) (option_map (λ p. string_bytes p.file) picture') f
run_fails plan plan' input input' output output' commands commands' tables tables' picture picture' f a b c d e i h =
    subst (λ (x : Option PictureRequest). EndsTold Global plan' (option_map string_bytes commands') input' output' (option_map string_bytes tables'.delays) (option_map string_bytes tables'.frames) (option_map (λ p. string_bytes p.file) x) f) i
    (subst (λ (x : TableRequest). EndsTold Global plan' (option_map string_bytes commands') input' output' (option_map string_bytes x.delays) (option_map string_bytes x.frames) (option_map (λ p. string_bytes p.file) picture) f) e
    (subst (λ (x : Option (String Global)). EndsTold Global plan' (option_map string_bytes x) input' output' (option_map string_bytes tables.delays) (option_map string_bytes tables.frames) (option_map (λ p. string_bytes p.file) picture) f) d
    (subst (λ (x : List ℕ). EndsTold Global plan' (option_map string_bytes commands) input' x (option_map string_bytes tables.delays) (option_map string_bytes tables.frames) (option_map (λ p. string_bytes p.file) picture) f) c
    (subst (λ (x : List ℕ). EndsTold Global plan' (option_map string_bytes commands) x output (option_map string_bytes tables.delays) (option_map string_bytes tables.frames) (option_map (λ p. string_bytes p.file) picture) f) b
    (subst (λ (x : List ℕ). EndsTold Global x (option_map string_bytes commands) input output (option_map string_bytes tables.delays) (option_map string_bytes tables.frames) (option_map (λ p. string_bytes p.file) picture) f) a h)))))
