-- A bundle looked up by its ends.
use Rattle.std.proofs.Common.{◌≡◌, Bool, true, false, not, cond, ◌&&◌, ◌||◌, List, [], ◌∷◌, ◌++◌, map, refl, sym, ap, ◌∙◌, if◌then◌else◌}
use Rattle.std.specs.List.{list_any}
use Rattle.clip_core.specs.declared.bundles.Bundle.{Bundle}
use Rattle.clip_core.specs.declared.bundles.Ends.{Ends}
use Rattle.clip_core.specs.Bundles.{same_bundle, with_bundle}
use Rattle.clip_core.specs.Inner.Found.{ends_of}

any-same : (E : Ends → Ends → Bool) → ((b c : Bundle) → E (ends_of b) (ends_of c) ≡ same_bundle b c) → (b : Bundle) (bs : List Bundle) → list_any (E (ends_of b)) (map ends_of bs) ≡ list_any (same_bundle b) bs
any-same E same b [] = refl
any-same E same b (c ∷ cs) = λ i. same b c i || any-same E same b cs i

unless : (t u : Bool) (b c : Bundle) (cs : List Bundle) → (let r = cond t (c ∷ cs) (c ∷ (if u then cs else cs ++ b ∷ [])) in r ≡ (if t || u then c ∷ cs else (c ∷ cs) ++ b ∷ []))
unless true u b c cs = refl
unless false true b c cs = refl
unless false false b c cs = refl

with_bundle-any : (b : Bundle) (bs : List Bundle) → with_bundle b bs ≡ (if list_any (same_bundle b) bs then bs else bs ++ b ∷ [])
with_bundle-any b [] = refl
with_bundle-any b (c ∷ cs) =
    ap (λ (bs : List Bundle). cond (same_bundle b c) (c ∷ cs) (c ∷ bs)) (with_bundle-any b cs)
    ∙ unless (same_bundle b c) (list_any (same_bundle b) cs) b c cs

-- where the ends are among those of the bundles the bundle is there, and else it goes last
pub with_bundle-found : (E : Ends → Ends → Bool) → ((b c : Bundle) → E (ends_of b) (ends_of c) ≡ same_bundle b c) → (b : Bundle) (bs : List Bundle) → with_bundle b bs ≡ (if list_any (E (ends_of b)) (map ends_of bs) then bs else bs ++ b ∷ [])
with_bundle-found E same b bs = with_bundle-any b bs ∙ ap (λ t. if t then bs else bs ++ b ∷ []) (sym (any-same E same b bs))

pub four : (a b c d : Bool) → (a && (b && (c && d))) ≡ ((a && b) && (c && d))
four true b c d = refl
four false b c d = refl

any-as : (E : Ends → Ends → Bool) (b : Bundle) (bs : List Bundle) (keys : List Ends) (key : Ends) (t u : Bool) → keys ≡ map ends_of bs → key ≡ ends_of b → t ≡ not (list_any (E key) keys) → t ≡ u → list_any (E (ends_of b)) (map ends_of bs) ≡ not u
any-as E b bs keys key t u ks k is tu = sym (λ i. list_any (E (k i)) (ks i)) ∙ (twice (list_any (E key) keys) ∙ ap not (sym is ∙ tu))
  where
    twice : (v : Bool) → v ≡ not (not v)
    twice true = refl
    twice false = refl

-- the bundle is new
pub put-new : (E : Ends → Ends → Bool) → ((b c : Bundle) → E (ends_of b) (ends_of c) ≡ same_bundle b c) → (b : Bundle) (bs : List Bundle) (keys : List Ends) (new : List Bundle) (key : Ends) (t : Bool) → keys ≡ map ends_of bs → key ≡ ends_of b → t ≡ not (list_any (E key) keys) → t ≡ true → new ≡ bs ++ b ∷ [] → new ≡ with_bundle b bs
put-new E same b bs keys new key t ks k is yes' put =
    put ∙ sym (with_bundle-found E same b bs ∙ ap (λ v. if v then bs else bs ++ b ∷ []) (any-as E b bs keys key t true ks k is yes'))

-- the bundle is there
pub put-old : (E : Ends → Ends → Bool) → ((b c : Bundle) → E (ends_of b) (ends_of c) ≡ same_bundle b c) → (b : Bundle) (bs : List Bundle) (keys : List Ends) (key : Ends) (t : Bool) → keys ≡ map ends_of bs → key ≡ ends_of b → t ≡ not (list_any (E key) keys) → t ≡ false → bs ≡ with_bundle b bs
put-old E same b bs keys key t ks k is no' =
    sym (with_bundle-found E same b bs ∙ ap (λ v. if v then bs else bs ++ b ∷ []) (any-as E b bs keys key t false ks k is no'))
