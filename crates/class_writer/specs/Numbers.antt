-- That numbers are of the types in which they are kept.
use Rattle.std.specs.Prelude.{Bool, true, ℕ, ◌^◌, nat_lt, ◌&&◌}
use Rattle.class_form.specs.declared.pool.Constant.{Constant}
use Rattle.class_form.specs.declared.pool.Constant.TheVariants.{Utf8, Integer, Float, Long, Double, Class, Text, Field, Method, InterfaceMethod, NameAndType, Handle, MethodType, Dynamic, Second}
use Rattle.class_form.specs.declared.class_file.ClassFile.{ClassFile}
use Rattle.class_form.specs.declared.class_file.Member.{Member}
use Rattle.class_form.specs.declared.class_file.CodeBody.{CodeBody}
use Rattle.class_form.specs.declared.class_file.Handler.{Handler}

unfoldable pub is_short : ℕ → Bool
is_short n = nat_lt n (2 ^ 16)

unfoldable pub has_numbers : Constant → Bool
has_numbers (Utf8 text) = true
has_numbers (Integer n) = nat_lt n (2 ^ 32)
has_numbers (Float n) = nat_lt n (2 ^ 32)
has_numbers (Long n) = nat_lt n (2 ^ 64)
has_numbers (Double n) = nat_lt n (2 ^ 64)
has_numbers (Class name) = is_short name
has_numbers (Text text) = is_short text
has_numbers (Field class rest) = is_short class && is_short rest
has_numbers (Method class rest) = is_short class && is_short rest
has_numbers (InterfaceMethod class rest) = is_short class && is_short rest
has_numbers (NameAndType name descriptor) = is_short name && is_short descriptor
has_numbers (Handle kind reference) = nat_lt kind (2 ^ 8) && is_short reference
has_numbers (MethodType descriptor) = is_short descriptor
has_numbers (Dynamic bootstrap rest) = is_short bootstrap && is_short rest
has_numbers Second = true

unfoldable pub line_has_numbers : ℕ × ℕ → Bool
line_has_numbers l = is_short l.0 && is_short l.1

unfoldable pub handler_has_numbers : Handler → Bool
handler_has_numbers h = is_short h.start && is_short h.end && is_short h.handler && is_short h.catch_type

unfoldable pub body_has_numbers : CodeBody → Bool
body_has_numbers b = is_short b.max_stack && is_short b.max_locals

unfoldable pub member_has_numbers : Member → Bool
member_has_numbers m = is_short m.flags && is_short m.name && is_short m.descriptor

unfoldable pub class_has_numbers : ClassFile → Bool
class_has_numbers c = is_short c.minor && is_short c.flags && is_short c.this_class && is_short c.super_class
