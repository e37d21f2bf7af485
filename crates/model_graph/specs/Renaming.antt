-- One graph under two namings of its members.
use Rattle.std.specs.Prelude.{◌≡◌, Bool, IsTrue}

-- `name` and `back` are inverse on members that have a link, and keep links.
pub record IsRenaming {A B : Type 0} (linked : A → A → Bool) (joined : B → B → Bool) (name : A → B) (back : B → A) : Type 0 where
  pub links : (a c : A) → IsTrue (linked a c) → IsTrue (joined (name a) (name c))
  pub links_back : (a c : B) → IsTrue (joined a c) → IsTrue (linked (back a) (back c))
  pub back_name : (a c : A) → IsTrue (linked a c) → back (name a) ≡ a
  pub name_back : (a c : B) → IsTrue (joined a c) → name (back a) ≡ a

-- `name` keeps the order of members that have links.
abbrev pub KeepsOrder : {A B : Type 0} → (A → A → Bool) → (A → A → Type 0) → (B → B → Type 0) → (A → B) → Type 0
KeepsOrder {A} linked Before Earlier name = (x y u v : A) → IsTrue (linked x u) → IsTrue (linked y v) → Before x y → Earlier (name x) (name y)
