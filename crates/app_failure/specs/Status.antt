-- Exit statuses of commands that failed.
use Rattle.std.specs.Prelude.{ℕ}
use Rattle.bridge_capture.specs.declared.capture_fault.CaptureFault.{CaptureFault}
use Rattle.bridge_capture.specs.declared.capture_fault.CaptureFault.TheVariants as capture
use Rattle.bridge_capture.specs.declared.fault.RunFault.{RunFault}
use Rattle.bridge_capture.specs.declared.fault.RunFault.TheVariants as run
use Rattle.bridge_cycle.specs.declared.cyclic_list.ListFault.{ListFault}
use Rattle.bridge_cycle.specs.declared.cyclic_list.ListFault.TheVariants as list
use Rattle.bridge_check.specs.declared.check_fault.CheckFault.{CheckFault}
use Rattle.bridge_check.specs.declared.check_fault.CheckFault.TheVariants as check
use Rattle.bridge_schema.specs.declared.plan_fault.PlanFault.{PlanFault}
use Rattle.bridge_schema.specs.declared.plan_fault.PlanFault.TheVariants as plan
use Rattle.app_failure.specs.declared.fault.TextFault.{TextFault}
use Rattle.app_failure.specs.declared.fault.TextFault.TheVariants as text
use Rattle.app_failure.specs.declared.fault.Failure.{Failure}
use Rattle.app_failure.specs.declared.fault.Failure.TheVariants as fault

-- The exit status after a faulty capture: 3 for devices and memory, otherwise 2.
abbrev pub capture_fault_status : CaptureFault → ℕ
capture_fault_status capture.Read = 3
capture_fault_status capture.Write = 3
capture_fault_status capture.NoMemory = 3
capture_fault_status f = 2

-- The exit status after a run that stopped: 2 for a refused capture, 3 for devices and memory.
abbrev pub run_fault_status : RunFault → ℕ
run_fault_status (run.Capture port f) = capture_fault_status f
run_fault_status (run.Write port) = 3
run_fault_status run.NoMemory = 3

-- The exit status after a refused text on standard input or its stopped run.
abbrev pub text_fault_status : TextFault → ℕ
text_fault_status text.NotHex = 2
text_fault_status text.TooLong = 2
text_fault_status (text.Run f) = run_fault_status f

-- The exit status after a refused list of a plan: 3 if memory ran out, otherwise 1.
abbrev pub list_fault_status : ListFault → ℕ
list_fault_status list.NoMemory = 3
list_fault_status f = 1

-- The exit status after a refused plan or refused commands: 3 if memory ran out, otherwise 1.
abbrev pub plan_fault_status : PlanFault → ℕ
plan_fault_status (plan.BadList section index f) = list_fault_status f
plan_fault_status plan.NoMemory = 3
plan_fault_status f = 1

-- The exit status after a plan that doesn't isolate a protected filter: 3 if memory ran out, otherwise 1.
abbrev pub check_fault_status : CheckFault → ℕ
check_fault_status check.NoMemory = 3
check_fault_status f = 1

-- The exit status of a failed command. It is 1 for plans, commands and networks, 2 for texts, captures and network runs, 3 for files and
-- memory, and 4 for arguments.
abbrev pub fault_status : Failure → ℕ
fault_status (fault.Text f) = text_fault_status f
fault_status (fault.Run f) = run_fault_status f
fault_status (fault.Plan f) = plan_fault_status f
fault_status (fault.Check f) = check_fault_status f
fault_status (fault.Commands f) = plan_fault_status f
fault_status (fault.Network line) = 1
fault_status (fault.Rounds line) = 2
fault_status fault.Words = 4
fault_status fault.NoMemory = 3
fault_status (fault.File e) = 3
