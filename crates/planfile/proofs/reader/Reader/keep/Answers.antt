-- A field is kept where there is room, which is where fewer than twenty are.
use Rattle.std.proofs.Common.{◌≡◌, ℕ, ◌<◌, List, [], ◌∷◌, ◌++◌, map, length, take, Bor, Result, Ok, Err, OnOk, OnErr, IsOk, ◌↔◌, refl, sym, ap, ◌∙◌, arith}
use Rattle.std.proofs.lemmas.List.{take_all, take_at, map-append, length-map, length_push}
use Rattle.std.proofs.lemmas.Result.{on_err_weaker}
use Rattle.planfile.proofs.reader.Reader.keep.Goals as goal

first_kept : {E : Type 0} (r : Result (Unit {0}) E) (old now : List (Bor (List ℕ))) (field : Bor (List ℕ)) → (IsOk r ↔ (length old < 20)) → OnOk r (now ≡ old ++ field ∷ []) → OnErr r (now ≡ old) → OnErr r (length old ≡ 20) → map (λ f. f.now) now ≡ take 20 (map (λ f. f.now) old ++ field.now ∷ [])
first_kept (Ok u) old now field room pushed same full =
    let few = room.0 refl in
    let all = map (λ (f : Bor (List ℕ)). f.now) old in
    ap (map (λ f. f.now)) pushed
    ∙ (map-append (λ f. f.now) old (field ∷ []) ∙ sym (take_all 20 (all ++ field.now ∷ []) (omega (arith, length_push all field.now, length-map old (λ (f : Bor (List ℕ)). f.now)))))
first_kept (Err e) old now field room pushed same full =
    ap (map (λ f. f.now)) same ∙ sym (take_at (map (λ (f : Bor (List ℕ)). f.now) old) (field.now ∷ []) 20 (length-map old (λ (f : Bor (List ℕ)). f.now) ∙ full))

pub returns : goal.returns
returns c =
    let push = c.try_push.ensures in
    record { text = refl; state = refl; fields = first_kept c.try_push.result _ _ c.args.field push.variant push.ok (on_err_weaker c.try_push.result (λ e. ap (λ v. v.items) e) push.err) push.full }
