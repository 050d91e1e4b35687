use Rattle.std.proofs.Common.{◌≡◌, to_z, of_z, w64, rules}
use Rattle.std.proofs.lemmas.Result.{err_from_is_err_and}
use Rattle.script.specs.Items.{coordinate_of}
use Rattle.script.proofs.Points.{point_from, point_parts, no_x, no_y, no_z, all_three}
use Rattle.script.proofs.read_item.PointReadItem.read_item.Goals as goal

pub returns-in_err-coordinate : goal.returns-in_err-coordinate
returns-in_err-coordinate c =
    let parts = point_parts c.args.text.now c.in_ok-x.x.now c.in_ok-x.rest.now c.in_ok-y.y.now c.in_ok-y.z.now c.in_ok-x.ensures c.in_ok-y.ensures in
    let p = err_from_is_err_and c.from_residual-in_err-coordinate.result c.from_residual-in_err-coordinate.ensures.1 in
    rw (p.1, p.2, parts) (no_x _ _ _ _ c.in_err-coordinate.ensures)

pub returns-in_err-coordinate-2 : goal.returns-in_err-coordinate-2
returns-in_err-coordinate-2 c =
    let parts = point_parts c.args.text.now c.in_ok-x.x.now c.in_ok-x.rest.now c.in_ok-y.y.now c.in_ok-y.z.now c.in_ok-x.ensures c.in_ok-y.ensures in
    let p = err_from_is_err_and c.from_residual-in_err-coordinate-2.result c.from_residual-in_err-coordinate-2.ensures.1 in
    rw (p.1, p.2, parts) (no_y _ _ _ _ c.in_err-coordinate-2.ensures)

pub returns-in_err-coordinate-3 : goal.returns-in_err-coordinate-3
returns-in_err-coordinate-3 c =
    let parts = point_parts c.args.text.now c.in_ok-x.x.now c.in_ok-x.rest.now c.in_ok-y.y.now c.in_ok-y.z.now c.in_ok-x.ensures c.in_ok-y.ensures in
    let p = err_from_is_err_and c.from_residual-in_err-coordinate-3.result c.from_residual-in_err-coordinate-3.ensures.1 in
    rw (p.1, p.2, parts) (no_z _ _ _ _ c.in_err-coordinate-3.ensures)

pub returns : goal.returns
returns c =
    let parts = point_parts c.args.text.now c.in_ok-x.x.now c.in_ok-x.rest.now c.in_ok-y.y.now c.in_ok-y.z.now c.in_ok-x.ensures c.in_ok-y.ensures in
    let all = all_three (coordinate_of c.in_ok-x.x.now) (coordinate_of c.in_ok-y.y.now) (coordinate_of c.in_ok-y.z.now) _ _ _ c.in_ok-coordinate.ensures c.in_ok-coordinate-2.ensures c.in_ok-coordinate-3.ensures in
    let ex : to_z w64 (of_z w64 c.in_ok-coordinate.field-0) ≡ c.in_ok-coordinate.field-0 = search rules in
    let ey : to_z w64 (of_z w64 c.in_ok-coordinate-2.field-0) ≡ c.in_ok-coordinate-2.field-0 = search rules in
    let ez : to_z w64 (of_z w64 c.in_ok-coordinate-3.field-0) ≡ c.in_ok-coordinate-3.field-0 = search rules in
    rw (parts, all) (point_from _ _ _ _ (rw (ex, ey, ez) at c.new.ensures))
