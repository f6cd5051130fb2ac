-- The turns so far, one turn more, and each way out.
use Rattle.std.specs.Prelude.{ℕ, ◌+◌, ◌-◌, ◌^◌, List, [], ◌∷◌, ◌++◌, length, Ok, Err, OnOk}
use Rattle.std.specs.List.{FoldsTo}
use Rattle.std.specs.Io.KnownBytes.{Consumes, Keeps}
use Rattle.std.specs.declared.result.Result.{Result}
use Rattle.std.specs.declared.option.Option.{Option}
use Rattle.std.specs.Result.{IsErr}
use Rattle.std.specs.Option.{is_some}
use Rattle.std.specs.ControlFlow.{break_value}
use Rattle.std.specs.declared.ops.ControlFlow.{ControlFlow}
use Rattle.std.specs.declared.ops.ControlFlow.TheVariants.{Break, Continue}
use mathlib.Core.Bool.{true}
use Rattle.std.proofs.KnownBytes.{Consumes-nil, Consumes-trans, Consumes-kept}
use Rattle.std.proofs.lemmas.Fn.{FoldsTo-push}
use mathlib.Core.Path.{◌≡◌, refl, sym, ap, ◌∙◌, subst}
use mathlib.Core.List.{append_assoc, append-nil}
use native.Mathlib.Omega.{arith}
use lib.ListN.{length-append}
use Rattle.inputs.specs.Pieces.{Turn, Answer, Takes, HandsOn, IsOver, ended, told, counted, bytes_of}

pub bytes_more : {E : Type 0} (turns : List (Turn E)) (t : Turn E) → bytes_of turns ++ t.piece ≡ bytes_of (turns ++ t ∷ [])
unfolding bytes_of
bytes_more [] t = sym (append-nil t.piece)
bytes_more (s ∷ turns) t = append_assoc s.piece (bytes_of turns) t.piece ∙ ap (λ (l : List ℕ). s.piece ++ l) (bytes_more turns t)

none_yet : (E : Type 0) → bytes_of {E = E} [] ≡ []
unfolding bytes_of
none_yet E = refl

on_err : {E : Type 0} (result : Result (Unit {0}) E) (P : Type 0) → IsErr result → OnOk result P
on_err (Ok u) P e = cc
on_err (Err x) P e = tt

pub breaks : (x : ControlFlow (Unit {0}) (Unit {0})) → true ≡ is_some (break_value x) → x ≡ Break tt
breaks (Continue u) e = cc
breaks (Break u) e = refl

module _ {F E : Type 0} (step : F → ℕ → List ℕ → Answer E → List ℕ → F → Type 0) (f : F)
    (old : Option (List ℕ)) where
  pub record SoFar (new : Option (List ℕ)) (g : F) (i : ℕ) : Type 0 where
    pub turns : List (Turn E)
    pub calls : FoldsTo (Takes step) f turns g
    pub bytes : Consumes old new (bytes_of turns)
    pub count : length turns ≡ i

  pub no_turn : SoFar old f 0
  no_turn =
      record { turns = []; calls = refl; bytes = subst (Consumes old old) (sym (none_yet E)) (Consumes-nil old); count = refl }

  module _ (mid : Option (List ℕ)) (g : F) (i : ℕ) (s : SoFar mid g i) where
    -- a read that fails takes nothing
    pub read_failed : (new : Option (List ℕ)) (result : Result (Unit {0}) E) → IsErr result → Keeps mid new
        → HandsOn step f g old new result
    read_failed new result e k =
        record {
          turns = s.turns;
          calls = s.calls;
          bytes = Consumes-kept old mid new (bytes_of s.turns) s.bytes k;
          over = on_err result (IsOver s.turns) e;
        }

    pub counted_out : i ≡ 2 ^ 64 - 1 → HandsOn step f g old mid (Ok tt)
    counted_out e = record { turns = s.turns; calls = s.calls; bytes = s.bytes; over = counted (s.count ∙ e) }

    module _ (new : Option (List ℕ)) (h : F) (t : Turn E) (took : Takes step g t h) (gone : Consumes mid new t.piece) where
      abbrev turns_now : List (Turn E)
      turns_now = s.turns ++ t ∷ []

      pub turn_more : SoFar new h (i + 1)
      turn_more =
          record {
            turns = turns_now;
            calls = FoldsTo-push (Takes step) f s.turns g t h s.calls took;
            bytes = subst (Consumes old new) (bytes_more s.turns t) (Consumes-trans old mid new (bytes_of s.turns) t.piece s.bytes gone);
            count = omega (arith, s.count, length-append s.turns (t ∷ []));
          }

      pub all_handed : (result : Result (Unit {0}) E) → OnOk result (IsOver turns_now) → HandsOn step f h old new result
      unfolding turn_more
      all_handed result over =
          let m = turn_more in record { turns = turns_now; calls = m.calls; bytes = m.bytes; over = over }

      pub call_failed : (result : Result (Unit {0}) E) → IsErr result → HandsOn step f h old new result
      call_failed result e = all_handed result (on_err result (IsOver turns_now) e)

      pub enough : t.answer ≡ Ok (Break tt) → HandsOn step f h old new (Ok tt)
      enough e = all_handed (Ok tt) (told s.turns t refl e)

      pub input_ended : t.piece ≡ [] → HandsOn step f h old new (Ok tt)
      input_ended e = all_handed (Ok tt) (ended s.turns t refl e)
