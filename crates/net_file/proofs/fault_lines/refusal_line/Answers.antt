use Rattle.std.proofs.Common.{sym}
use Rattle.net_file.proofs.fault_lines.refusal_line.Goals as goal

pub returns-in-Syntax : goal.returns-in-Syntax
returns-in-Syntax g c = rw c.in-Syntax.is c.refusal_text.ensures

pub returns-in-TooLong : goal.returns-in-TooLong
returns-in-TooLong g c = rw c.in-TooLong.is c.refusal_text-in-TooLong.ensures

pub returns-in-UnknownKey : goal.returns-in-UnknownKey
returns-in-UnknownKey g c = rw c.in-UnknownKey.is c.instance_refusal.ensures

pub returns-in-NotAList : goal.returns-in-NotAList
returns-in-NotAList g c = rw (c.in-NotAList.is, sym c.name.ensures.name) c.located_refusal.ensures

pub returns-in-Missing : goal.returns-in-Missing
returns-in-Missing g c = rw c.in-Missing.is c.key_refusal.ensures

pub returns-in-WrongKind : goal.returns-in-WrongKind
returns-in-WrongKind g c = rw c.in-WrongKind.is c.key_refusal-in-WrongKind.ensures

pub returns-in-OutOfRange : goal.returns-in-OutOfRange
returns-in-OutOfRange g c = rw c.in-OutOfRange.is c.key_refusal-in-OutOfRange.ensures

pub returns-in-Duplicate : goal.returns-in-Duplicate
returns-in-Duplicate g c = rw c.in-Duplicate.is c.instance_refusal-in-Duplicate.ensures

pub returns-in-Unresolved : goal.returns-in-Unresolved
returns-in-Unresolved g c = rw c.in-Unresolved.is c.key_refusal-in-Unresolved.ensures

pub returns-in-TooMany : goal.returns-in-TooMany
returns-in-TooMany g c = rw (c.in-TooMany.is, sym c.name-in-TooMany.ensures.name) c.located_refusal-in-TooMany.ensures

pub returns-in-NoMemory : goal.returns-in-NoMemory
returns-in-NoMemory g c = rw c.in-NoMemory.is c.no_memory_line.ensures
