-- What the streams of a track say, joined over dumps and readings, holds what each of them says.
use Rattle.law_imd_tracks.specs.lemmas.Elements.{later_element}
use Rattle.std.proofs.Common.{◌≡◌, ◌⊎◌, List, [], ◌∷◌, sym, subst, inl, inr}
use Rattle.std.specs.Prelude.{Contains}
use Rattle.std.proofs.lemmas.List.Elements.{Contains-append_left, Contains-append_right, Contains-append_cases}
use Rattle.imd_image.specs.Streams.{AreJoined}
use Rattle.law_imd_files.proofs.Lists.{no_element, which, first_element}
use Rattle.name_book.specs.Names.{NotedData}
use Rattle.name_book.specs.declared.name.NamedHeader.{NamedHeader}

-- one part of what is joined
pub record IsPart {K : Type 0} (Are : K → List NamedHeader → List NotedData → Type 0) (key : K) (headers : List NamedHeader) (noted : List NotedData) : Type 0 where
  pub its : List NamedHeader
  pub held : List NotedData
  pub are : Are key its held
  pub all : (h : NamedHeader) → Contains its h → Contains headers h
  pub each : (d : NotedData) → Contains held d → Contains noted d

pub joined_has : {K : Type 0} (Are : K → List NamedHeader → List NotedData → Type 0) (keys : List K) (headers : List NamedHeader) (noted : List NotedData)
    → AreJoined Are keys headers noted → (key : K) → Contains keys key → IsPart Are key headers noted
joined_has Are [] headers noted joined key has = absurd (no_element key has)
joined_has {K} Are (first ∷ keys) headers noted joined key has = by (which first key keys has) (joined_has Are keys joined.later joined.held_later joined.others key)
  where
    by : (first ≡ key) ⊎ Contains keys key → (Contains keys key → IsPart Are key joined.later joined.held_later) → IsPart Are key headers noted
    by (inl same) rest_of = record {
      its = joined.first;
      held = joined.held_first;
      are = subst (λ (k : K). Are k joined.first joined.held_first) same joined.one;
      all = λ h has. subst (λ (hs : List NamedHeader). Contains hs h) (sym joined.headers_are) (Contains-append_left joined.first joined.later h has);
      each = λ d has. subst (λ (ds : List NotedData). Contains ds d) (sym joined.data_are) (Contains-append_left joined.held_first joined.held_later d has);
    }
    by (inr more) rest_of =
        let rest = rest_of more in
        record {
          its = rest.its;
          held = rest.held;
          are = rest.are;
          all = λ h has. subst (λ (hs : List NamedHeader). Contains hs h) (sym joined.headers_are) (Contains-append_right joined.first joined.later h (rest.all h has));
          each = λ d has. subst (λ (ds : List NotedData). Contains ds d) (sym joined.data_are) (Contains-append_right joined.held_first joined.held_later d (rest.each d has));
        }

-- what holds of all headers and data of each part holds of all that are joined
module _ {K : Type 0} (Are : K → List NamedHeader → List NotedData → Type 0) (P : NamedHeader → Type 0) (Q : NotedData → Type 0) where
  pub record Hold (headers : List NamedHeader) (noted : List NotedData) : Type 0 where
    pub all : (h : NamedHeader) → Contains headers h → P h
    pub each : (d : NotedData) → Contains noted d → Q d

  pub joined_hold : (keys : List K) (headers : List NamedHeader) (noted : List NotedData) → AreJoined Are keys headers noted
      → ((key : K) (its : List NamedHeader) (held : List NotedData) → Contains keys key → Are key its held → Hold its held) → Hold headers noted
  joined_hold [] headers noted joined parts = record {
    all = λ h has. absurd (no_element h (subst (λ (hs : List NamedHeader). Contains hs h) joined.0 has));
    each = λ d has. absurd (no_element d (subst (λ (ds : List NotedData). Contains ds d) joined.1 has));
  }
  joined_hold (first ∷ keys) headers noted joined parts =
      let one = parts first joined.first joined.held_first (first_element first keys) joined.one in
      let rest = joined_hold keys joined.later joined.held_later joined.others (λ key its held has are. parts key its held (later_element first key keys has) are) in
      record {
        all = λ h has. elim (Contains-append_cases joined.first joined.later h (subst (λ (hs : List NamedHeader). Contains hs h) joined.headers_are has)) [
          | inl here ↦ one.all h here
          | inr more ↦ rest.all h more
        ];
        each = λ d has. elim (Contains-append_cases joined.held_first joined.held_later d (subst (λ (ds : List NotedData). Contains ds d) joined.data_are has)) [
          | inl here ↦ one.each d here
          | inr more ↦ rest.each d more
        ];
      }
