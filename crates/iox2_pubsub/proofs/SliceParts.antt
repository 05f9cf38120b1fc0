-- What the words of slices say, part by part.
use Rattle.std.proofs.Common.{◌≡◌, ℕ, List, [], ◌∷◌, map, true, false, refl, ap, sym, ◌∙◌, Option, Some}
use Rattle.iox2_machine.specs.SingleValues.{is_single_valued}
use Rattle.iox2_machine.specs.declared.service_config.ServiceConfig.{ServiceConfig}
use Rattle.iox2_machine.specs.declared.service_config.TypeVariant.TheVariants.{Dynamic}
use Rattle.iox2_machine.specs.machine.Records.{Entry, Loan}
use Rattle.iox2_machine.specs.declared.key.Key.{Key}
use Rattle.iox2_domain.specs.Boxes.{DomainBoxes}
use Rattle.iox2_domain.specs.Fields.{Fields, keeping}
use Rattle.iox2_domain.specs.Kept.{Kept, state_of, entries_of}
use Rattle.iox2_domain.specs.LoanCalls.{HasCells}
use Rattle.iox2_domain.proofs.lemmas.fields.SingleSettings.{dynamic-several}
use Rattle.iox2_pubsub.specs.NewDomains.{CarriesAs}
use Rattle.iox2_pubsub.specs.Slices.{HoldsSlices, IsSliced, HasUnwrittenCells, HasValues, SampleHasValues}
use Rattle.iox2_pubsub.proofs.LiveParts.{single-valued}

-- values whose cells are the same are the same
same-values : {T : Type 0} (xs ys : List T) → map Some xs ≡ map Some ys → xs ≡ ys
same-values [] [] same = refl
same-values {T} [] (y ∷ ys) same = let clash : ◌≡◌ {A = List (Option T)} [] (Some y ∷ map Some ys) = same in absurd cc
same-values {T} (x ∷ xs) [] same = let clash : ◌≡◌ {A = List (Option T)} (Some x ∷ map Some xs) [] = same in absurd cc
same-values {T} (x ∷ xs) (y ∷ ys) same =
    let both : ◌≡◌ {A = List (Option T)} (Some x ∷ map Some xs) (Some y ∷ map Some ys) = same in
    let first : x ≡ y = cc in
    let rest : map Some xs ≡ map Some ys = cc in
    let others : xs ≡ ys = same-values xs ys rest in
    cc

module _ {T U F G : Type 0} (kept : Kept T U F G) where
  pub holds-parts : HoldsSlices kept → is_single_valued kept.config ≡ false
  unfolding HoldsSlices
  holds-parts holds = holds

  -- as the fields have it
  pub holds-in : {boxes : DomainBoxes F G} (f : Fields T U) → keeping boxes f ≡ kept → HoldsSlices kept
      → is_single_valued f.config ≡ false
  holds-in f view holds = ap (λ (k : Kept T U F G). is_single_valued k.config) view ∙ holds-parts holds

  -- messages of a service for slices are slices
  pub dynamic-holds : (kept.config).variant ≡ Dynamic → HoldsSlices kept
  unfolding HoldsSlices
  dynamic-holds dynamic = dynamic-several kept.config dynamic

  -- and their cells are handed out where the settings say so
  pub dynamic-sliced : (kept.config).variant ≡ Dynamic → (kept.config).lists_cells ≡ true → IsSliced kept
  dynamic-sliced dynamic lists = record { holds = dynamic-holds dynamic; lists_cells = lists }

  -- with these settings messages are as they say
  pub carries-as : (config : ServiceConfig) → kept.config ≡ config → CarriesAs config kept
  carries-as config same =
      let variant = ap (λ (c : ServiceConfig). c.variant) same in
      record {
        single_valued = λ single units.
            single-valued kept (variant ∙ single) (ap (λ (c : ServiceConfig). c.units_per_element) same ∙ units);
        holds_slices = λ dynamic. dynamic-holds (variant ∙ dynamic);
        sliced = λ dynamic lists.
            dynamic-sliced (variant ∙ dynamic) (ap (λ (c : ServiceConfig). c.lists_cells) same ∙ lists);
      }

  pub cells-parts : (n : ℕ) (cells : List (Option T)) → HasUnwrittenCells kept n cells
      → HasCells (state_of kept) n cells
  unfolding HasUnwrittenCells
  cells-parts n cells has = has

  pub has-cells : (n : ℕ) (cells : List (Option T)) → HasCells (state_of kept) n cells → HasUnwrittenCells kept n cells
  unfolding HasUnwrittenCells
  has-cells n cells has = has

  pub values-parts : (n : ℕ) (values : List T) → HasValues kept n values → HasCells (state_of kept) n (map Some values)
  unfolding HasValues
  values-parts n values has = has

  pub has-values : (n : ℕ) (values : List T) → HasCells (state_of kept) n (map Some values) → HasValues kept n values
  unfolding HasValues
  has-values n values has = has

  -- an unwritten loan has its cells, and a written one its values
  pub cells-one : (n : ℕ) (cells cells' : List (Option T)) → HasUnwrittenCells kept n cells
      → HasUnwrittenCells kept n cells' → cells ≡ cells'
  unfolding HasUnwrittenCells
  cells-one n cells cells' a b =
      let both : Some a.0 ≡ Some b.0 = sym a.1 ∙ b.1 in
      let same : a.0 ≡ b.0 = cc in
      sym a.2 ∙ ap (λ (l : Loan T U). l.cells) same ∙ b.2

  pub values-one : (n : ℕ) (values values' : List T) → HasValues kept n values → HasValues kept n values'
      → values ≡ values'
  unfolding HasValues
  values-one n values values' a b =
      let both : Some a.0 ≡ Some b.0 = sym a.1 ∙ b.1 in
      let same : a.0 ≡ b.0 = cc in
      same-values values values' (sym a.2 ∙ ap (λ (l : Loan T U). l.cells) same ∙ b.2)

  -- so does a sample
  pub sample-values : (key : Key) (values : List T) → (entry : Entry T U) × (entries_of kept key.message ≡ Some entry)
      × (entry.values ≡ values) → SampleHasValues kept key values
  unfolding SampleHasValues
  sample-values key values has = has

  pub sample-values-one : (key : Key) (values values' : List T) → SampleHasValues kept key values
      → SampleHasValues kept key values' → values ≡ values'
  unfolding SampleHasValues
  sample-values-one key values values' a b =
      let both : Some a.0 ≡ Some b.0 = sym a.1 ∙ b.1 in
      let same : a.0 ≡ b.0 = cc in
      sym a.2 ∙ ap (λ (e : Entry T U). e.values) same ∙ b.2
