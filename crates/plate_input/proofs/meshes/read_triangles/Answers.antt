use Rattle.std.proofs.Common.{◌≡◌, ◌<◌, length, subst}
use Rattle.plate_input.proofs.Readings.{answer_ok, answer_empty, answer_bad, answer_many, is_zero, not_zero}
use Rattle.plate_input.proofs.meshes.read_triangles.Goals as goal

pub returns-then-is_empty-clause-gives : goal.returns-then-is_empty-clause-gives
returns-then-is_empty-clause-gives c =
    let none : length c.in-Ok.read.items ≡ 0 = subst (λ xs. length xs ≡ 0) c.of-tris.ensures (is_zero (length c.of-tris.result) c.is_empty.result c.is_empty.ensures c.if-is_empty.true) in
    answer_empty c.args.mesh c.args.bytes.now c.in-Ok.read.items c.in-Ok.ensures.mesh none

pub returns-else-is_empty-clause-gives : goal.returns-else-is_empty-clause-gives
returns-else-is_empty-clause-gives c =
    let some : 0 < length c.in-Ok.read.items = subst (λ xs. 0 < length xs) c.of-tris.ensures (not_zero (length c.of-tris.result) c.is_empty.result c.is_empty.ensures c.if-is_empty.false) in
    answer_ok c.args.mesh c.args.bytes.now c.in-Ok.read c.of-tris.result c.in-Ok.ensures.mesh c.of-tris.ensures some

pub returns-in-Err-BadLine-clause-gives : goal.returns-in-Err-BadLine-clause-gives
returns-in-Err-BadLine-clause-gives c =
    answer_bad c.args.mesh c.in-Err-BadLine.line c.args.bytes.now c.in-Err-BadLine.field-0 c.in-Err-BadLine.field-0-is c.in-Err-BadLine.ensures.bad_line

pub returns-in-Err-TooManyTriangles-clause-gives : goal.returns-in-Err-TooManyTriangles-clause-gives
returns-in-Err-TooManyTriangles-clause-gives c =
    answer_many c.args.mesh c.in-Err-TooManyTriangles.count c.args.bytes.now c.in-Err-TooManyTriangles.field-0 c.in-Err-TooManyTriangles.field-0-is c.in-Err-TooManyTriangles.ensures.too_many
