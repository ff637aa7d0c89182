-- A few values with what forms read of them.
use Rattle.std.specs.Prelude.{◌≡◌, ℕ, List, [], ◌∷◌, None, Ok, Err, codes, refl}
use Rattle.std.specs.Fmt.{digits}
use Rattle.serde_json.specs.Data.{Data, null, number as number_data, unsigned, array, object, no_items, item, no_members, member}
use Rattle.json_shapes.specs.Shapes.{field_step, place_step, text, number, list, nullable, field, optional, variant, path_text}
use Rattle.json_shapes.specs.declared.stop.Want.TheVariants.{Text, Number, Variant}

abbrev one : List ℕ → Data → Data
one name d = object (member name d no_members)

missing : field (codes "a") text (one (codes "b") null) ≡ Err (record { path = field_step (codes "a") ∷ []; want = Text })
missing = refl

-- null is no text, and may stand for a missing field
null_is_no_text : field (codes "a") text (one (codes "a") null) ≡ Err (record { path = field_step (codes "a") ∷ []; want = Text })
null_is_no_text = refl

null_is_missing : optional (codes "a") text (one (codes "a") null) ≡ Ok None
null_is_missing = refl

-- a field that may be null has to be there
none_to_be_null : field (codes "a") (nullable number) (one (codes "b") null) ≡ Err (record { path = field_step (codes "a") ∷ []; want = Number })
none_to_be_null = refl

-- the first item that isn't what belongs there, by its place
second_item : field (codes "a") (list number) (one (codes "a") (array (item (number_data (unsigned 7)) (item null (item null no_items)))))
    ≡ Err (record { path = field_step (codes "a") ∷ place_step 1 ∷ []; want = Number })
second_item = refl

path : path_text (field_step (codes "a") ∷ place_step 10 ∷ field_step (codes "b") ∷ []) ≡ codes "a.10.b"
unfolding digits
path = refl

two_fields : variant (object (member (codes "a") null (member (codes "b") null no_members))) ≡ Err (record { path = []; want = Variant })
two_fields = refl
