-- How values of any type are laid out.
use Rattle.std.proofs.Common.{◌≡◌, ◌≤◌, arith, lit≤}
use mir.Syntax.{Ty, Width, w8, w16, w32, w64, w128}
use mir.Val.{bytes}
use prog.Memory.{align}
use prog.Align.{align_w, align-bytes}

bytes_few : (width : Width) → bytes width ≤ 16
bytes_few w8 = lit≤ tt
bytes_few w16 = lit≤ tt
bytes_few w32 = lit≤ tt
bytes_few w64 = lit≤ tt
bytes_few w128 = lit≤ tt

-- each type is aligned to at most 16 bytes
pub align_few : (type : Ty) → align type ≤ 16
align_few type =
    let same : align type ≡ bytes (align_w type) = align-bytes type in
    let few = bytes_few (align_w type) in
    omega arith
