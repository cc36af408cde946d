-- The outcome of a constant pool is the one that is computed.
use Rattle.std.proofs.Common.{ℕ, suc, ◌+◌, ◌-◌, List, [], ◌∷◌, length}
use Rattle.std.proofs.lemmas.Bool.Decides.{Decides-eqb, Decides-ltb, not_from_Decides}
use Rattle.byte_form.specs.Places.{State, IsBytes}
use Rattle.byte_form.specs.Reading.{number_at, bytes_at, list_at}
use Rattle.byte_form.proofs.Outcomes.{Is, number_is, bytes_is, here_is, made_is, rule_is, either_is, followed_is, list_is}
use Rattle.class_form.specs.Spelling.{spell_constant}
use Rattle.class_form.specs.PoolFaults.{text, constant, index, links, pool}
use Rattle.class_form.specs.PoolReading.{read_text, read_constant, read_index, read_links, read_pool}
use Rattle.class_form.proofs.Characters.{is_modified_utf8-Decides}
use Rattle.class_form.proofs.PoolTests.{is_tag-Decides, wide_tag-Decides, ends_wide-Decides, has_kinds-Decides, has_texts-Decides}
use Rattle.class_form.proofs.Constants.{info_is}
use Rattle.class_form.specs.declared.pool.Pool.{Pool}
use Rattle.class_form.specs.declared.pool.Constant.{Constant}
use Rattle.class_form.specs.declared.pool.Constant.TheVariants.{Utf8, Second}

text_is : (at : ℕ) (s : State) → IsBytes s.rest → Is (text at) s (read_text at s)
unfolding text read_text
text_is at s fits = followed_is _ _ (number_at 2 s) _ (number_is 2 s fits) (λ len e rest.
    followed_is _ _ (bytes_at len.0 len.1) _ (bytes_is len.0 len.1 rest) (λ content e rest.
    rule_is _ _ (is_modified_utf8-Decides content.0) (λ good. made_is (Utf8 content.0) content.1 rest)))

constant_is : (major left : ℕ) (s : State) → IsBytes s.rest → Is (constant major left) s (read_constant major left s)
unfolding constant read_constant
constant_is major left s fits = here_is _ (followed_is _ _ (number_at 1 s) _ (number_is 1 s fits) (λ tag e rest.
    rule_is _ _ (is_tag-Decides major tag.0) (λ known.
    rule_is _ _ (wide_tag-Decides tag.0 left) (λ room.
    either_is (Decides-eqb tag.0 1) (λ yes. text_is s.at tag.1 rest) (λ no. info_is major tag.0 tag.1 ((is_tag-Decides major tag.0).0 known) (not_from_Decides _ (Decides-eqb tag.0 1) no) rest)))))

pub index_is : (major count : ℕ) (before : List Constant) (s : State) → IsBytes s.rest → Is (index major count before) s (read_index major count before s)
unfolding index read_index
index_is major count before s fits = either_is (ends_wide-Decides before) (λ yes. made_is Second s fits) (λ no. constant_is major (count - suc (length before)) s fits)

pub links_is : (p : Pool) (at : ℕ) (cs : List Constant) (s : State) → IsBytes s.rest → Is (links p at cs) s (read_links p at cs s)
unfolding links read_links
links_is p at [] s fits = made_is tt s fits
links_is p at (c ∷ cs) s fits = rule_is _ _ (has_kinds-Decides p c) (λ kinds. rule_is _ _ (has_texts-Decides p c) (λ texts. links_is p (at + length (spell_constant c)) cs s fits))

pub pool_is : (major : ℕ) (s : State) → IsBytes s.rest → Is (pool major) s (read_pool major s)
unfolding pool read_pool
pool_is major s fits = here_is _ (followed_is _ _ (number_at 2 s) _ (number_is 2 s fits) (λ count e rest.
    rule_is _ _ (Decides-ltb 0 count.0) (λ some.
    here_is _ (followed_is _ _ (list_at (read_index major (count.0 - 1)) (count.0 - 1) [] count.1) _ (list_is _ _ (index_is major (count.0 - 1)) (count.0 - 1) [] count.1 rest) (λ constants e rest.
    followed_is _ _ (read_links (record { constants = constants.0; major = major }) count.1.at constants.0 constants.1) _ (links_is _ count.1.at constants.0 constants.1 rest) (λ done e rest.
    made_is (record { constants = constants.0; major = major }) done.1 rest))))))
