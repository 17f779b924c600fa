use Rattle.mv_lines.proofs.Common.{◌++◌, ◌≡◌, List, append_assoc, codes, ℕ, StructName}
use Rattle.mv_machine.specs.Lines.{address_text, struct_text}
use Rattle.mv_lines.proofs.texts.put_name.Goals as goal

-- a struct's name, as it is put after a text, piece by piece
name_put : (t0 t1 t2 t3 t4 t5 home identifier : List ℕ) (address : ℕ) (n : StructName) → t1 ≡ t0 ++ address_text address → t2 ≡ t1 ++ codes "::" → t3 ≡ t2 ++ home → t4 ≡ t3 ++ codes "::"
    → t5 ≡ t4 ++ identifier → address ≡ n.home.address → home ≡ n.home.name → identifier ≡ n.name → t5 ≡ t0 ++ struct_text n
name_put t0 t1 t2 t3 t4 t5 home identifier address n p1 p2 p3 p4 p5 address_is home_is identifier_is = rw (p5, p4, p3, p2, p1, address_is, home_is, identifier_is) (simp append_assoc)

pub returns : goal.returns
returns c =
    name_put c.args.text.now.items c.put_address.new.text.items c.extend_from_slice.new.self.items c.extend_from_slice-2.new.self.items c.extend_from_slice-3.new.self.items
    c.extend_from_slice-4.new.self.items _ _ _ c.args.name.now
    c.in_ok-put_address.ensures c.in_ok-extend_from_slice.ensures.items c.in_ok-extend_from_slice-2.ensures.items c.in_ok-extend_from_slice-3.ensures.items c.in_ok-extend_from_slice-4.ensures.items
    c.address.ensures c.home.ensures c.identifier.ensures
