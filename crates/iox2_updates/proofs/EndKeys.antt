-- The key that a publisher has at a subscriber's place, as it was looked up.
use Rattle.std.proofs.Common.{◌≡◌, ◌∙◌, List, Option, Some, ℕ, ap, sym, subst}
use Rattle.slab.specs.Slab.{ContainsKey}
use Rattle.iox2_domain.specs.Fields.{Fields}
use Rattle.iox2_domain.specs.Invariant.{IsDomain}
use Rattle.iox2_domain.specs.Ports.{PublisherFields}
use Rattle.iox2_domain.specs.Updates.{sender_key}
use Rattle.iox2_steps.proofs.updates.MarkedEnds.{end-there}

pub key-read : {T U : Type 0} (f v : Fields T U) → v ≡ f → (publishers : List (Option PublisherFields))
    → publishers ≡ v.publishers
    → (i j : ℕ) (key : Option ℕ) → key ≡ sender_key publishers i j → sender_key f.publishers i j ≡ key
key-read {T} {U} f v same publishers read i j key found =
    ap (λ xs. sender_key xs i j) (sym (read ∙ ap (λ (g : Fields T U). g.publishers) same)) ∙ sym found

-- The connection at that key stands.
pub end-read : {T U : Type 0} (f v : Fields T U) → v ≡ f → IsDomain f → (publishers : List (Option PublisherFields))
    → publishers ≡ v.publishers
    → (i j : ℕ) (key : Option ℕ) → key ≡ sender_key publishers i j → (k : ℕ) → key ≡ Some k
    → ContainsKey v.connections k
end-read {T} {U} f v same sound publishers read i j key found k is =
    subst (λ (g : Fields T U). ContainsKey g.connections k) (sym same)
    (end-there f sound i j k (key-read f v same publishers read i j key found ∙ is))
