-- A file whose sheet is good: the value that it gives is a good network, and means the sheet's.
use Rattle.std.specs.Prelude.{if◌then◌else◌}
use Prim.Native.Nat.{ℕ}
use mathlib.Core.Bool.{Bool, true, false}
use mathlib.Core.Path.{◌≡◌}
use mathlib.Core.List.{List}
use native.Mathlib.Omega.{arith}
use lib.Dec.{T, ltb}
use lib.ListN.{length}
use Rattle.net.specs.Network.{Network}
use Rattle.sheet_rules.specs.Rules.{sheet_holds}
use Rattle.sheet.specs.Sheet.{refused, sheet, read_sheet}
use Rattle.sheet.proofs.Laws.{read_holds}
use Rattle.console.specs.Sheets.{file_sheet}

pub file_holds : (file : List ℕ) (net : Network) → file_sheet file ≡ sheet net → T (sheet_holds net)
unfolding file_sheet
file_holds file net = go (ltb 4096 (length file))
  where
    go : (b : Bool) → (if b then refused 2 else read_sheet file) ≡ sheet net → T (sheet_holds net)
    go true e = let z : ◌≡◌ {A = ℕ} 0 1 = cc in absurd (omega arith)
    go false e = read_holds file net e
