-- `tell_refusal`: the line of each refusal.
use Rattle.buffers.specs.Buffers.{bytes_of}
use Rattle.depot.specs.Depot.{line_of}
use Rattle.depot.proofs.tell_refusal.Goals as goal

pub returns-in-Length-clause-err : goal.returns-in-Length-clause-err
unfolding line_of bytes_of
returns-in-Length-clause-err g c = rw c.in-Length.is c.write_all.ensures.err

pub returns-in-Checks-clause-ok : goal.returns-in-Checks-clause-ok
unfolding line_of bytes_of
returns-in-Checks-clause-ok g c = rw c.in-Checks.is c.write_all-in-Checks.ensures.ok

pub returns-in-Checks-clause-err : goal.returns-in-Checks-clause-err
unfolding line_of bytes_of
returns-in-Checks-clause-err g c = rw c.in-Checks.is c.write_all-in-Checks.ensures.err

pub returns-in-Format-clause-ok : goal.returns-in-Format-clause-ok
unfolding line_of bytes_of
returns-in-Format-clause-ok g c = rw c.in-Format.is c.write_all-in-Format.ensures.ok

pub returns-in-Format-clause-err : goal.returns-in-Format-clause-err
unfolding line_of bytes_of
returns-in-Format-clause-err g c = rw c.in-Format.is c.write_all-in-Format.ensures.err
