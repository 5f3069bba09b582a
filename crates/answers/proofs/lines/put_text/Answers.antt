use Rattle.answers.proofs.lines.put_text.Goals as goal

pub returns-in-ReadFault-clause-ok : goal.returns-in-ReadFault-clause-ok
returns-in-ReadFault-clause-ok g c = rw c.in-ReadFault.is (rw c.bytes.ensures at c.put_two.ensures.ok)

pub returns-in-ReadFault-clause-err : goal.returns-in-ReadFault-clause-err
returns-in-ReadFault-clause-err g c = rw c.in-ReadFault.is (rw c.bytes.ensures at c.put_two.ensures.err)

pub returns-in-NotJson-clause-ok : goal.returns-in-NotJson-clause-ok
returns-in-NotJson-clause-ok g c = rw c.in-NotJson.is (rw c.bytes-in-NotJson.ensures at c.put_two-in-NotJson.ensures.ok)

pub returns-in-NotJson-clause-err : goal.returns-in-NotJson-clause-err
returns-in-NotJson-clause-err g c = rw c.in-NotJson.is (rw c.bytes-in-NotJson.ensures at c.put_two-in-NotJson.ensures.err)

pub returns-in-OutOfRange-clause-ok : goal.returns-in-OutOfRange-clause-ok
returns-in-OutOfRange-clause-ok g c = rw c.in-OutOfRange.is (rw c.bytes-in-OutOfRange.ensures at c.put_key-in-OutOfRange.ensures.ok)

pub returns-in-OutOfRange-clause-err : goal.returns-in-OutOfRange-clause-err
returns-in-OutOfRange-clause-err g c = rw c.in-OutOfRange.is (rw c.bytes-in-OutOfRange.ensures at c.put_key-in-OutOfRange.ensures.err)

pub returns-in-UnknownExtruder-clause-ok : goal.returns-in-UnknownExtruder-clause-ok
returns-in-UnknownExtruder-clause-ok g c = rw c.in-UnknownExtruder.is c.put_number-in-UnknownExtruder.ensures.ok

pub returns-in-UnknownExtruder-clause-err : goal.returns-in-UnknownExtruder-clause-err
returns-in-UnknownExtruder-clause-err g c = rw c.in-UnknownExtruder.is c.put_number-in-UnknownExtruder.ensures.err

pub returns-in-BadStl-clause-ok : goal.returns-in-BadStl-clause-ok
returns-in-BadStl-clause-ok g c = rw c.in-BadStl.is c.put_numbers.ensures.ok

pub returns-in-BadStl-clause-err : goal.returns-in-BadStl-clause-err
returns-in-BadStl-clause-err g c = rw c.in-BadStl.is c.put_numbers.ensures.err

pub returns-in-NoTriangles-clause-ok : goal.returns-in-NoTriangles-clause-ok
returns-in-NoTriangles-clause-ok g c = rw c.in-NoTriangles.is c.put_number-in-NoTriangles.ensures.ok

pub returns-in-NoTriangles-clause-err : goal.returns-in-NoTriangles-clause-err
returns-in-NoTriangles-clause-err g c = rw c.in-NoTriangles.is c.put_number-in-NoTriangles.ensures.err

pub returns-in-TooManyTriangles-clause-ok : goal.returns-in-TooManyTriangles-clause-ok
returns-in-TooManyTriangles-clause-ok g c = rw c.in-TooManyTriangles.is c.put_numbers-in-TooManyTriangles.ensures.ok

pub returns-in-TooManyTriangles-clause-err : goal.returns-in-TooManyTriangles-clause-err
returns-in-TooManyTriangles-clause-err g c = rw c.in-TooManyTriangles.is c.put_numbers-in-TooManyTriangles.ensures.err
